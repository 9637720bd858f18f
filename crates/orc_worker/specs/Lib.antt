pub mod Workers
pub mod Courses
