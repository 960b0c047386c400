pub mod World
pub mod Log
pub mod Reading
pub mod Counting
pub mod Queue
pub mod Next
pub mod Judging
