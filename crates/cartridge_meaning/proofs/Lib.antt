pub mod Decided
pub mod Extents
pub mod Faulty
pub mod Frame
pub mod Honest
mod HonestTrials
pub mod IndexOrStops
pub mod Judged
pub mod Known
pub mod Newest
pub mod Noted
pub mod NotedEnds
pub mod OneFault
pub mod OneMount
pub mod OneTree
pub mod OneWay
