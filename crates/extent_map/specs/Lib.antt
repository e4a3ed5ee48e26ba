pub mod Blocks
pub mod Cells
pub mod Laid
pub mod Laws
pub mod Pieces
pub mod Replies
