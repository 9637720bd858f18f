mod Sound
mod Courses
