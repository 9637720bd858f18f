pub mod Menders
pub mod Courses
