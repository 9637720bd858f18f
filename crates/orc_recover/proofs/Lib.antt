mod Left
mod Ending
mod Courses
