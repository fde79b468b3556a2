pub mod LiveGrammar
pub mod Threads
pub mod Courses
pub mod Rounds
pub mod Lives
