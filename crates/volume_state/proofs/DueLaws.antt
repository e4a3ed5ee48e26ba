pub mod Behind
pub mod Trees
pub mod Tapes
pub mod Within
pub mod Names
pub mod Labels
pub mod Texts
pub mod Due
