pub mod LetGo
pub mod Placements
pub mod Trails
