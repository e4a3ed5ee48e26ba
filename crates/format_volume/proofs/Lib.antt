pub mod NoteLemmas
pub mod RoomLemmas
pub mod StandLemmas
pub mod TextLemmas
pub mod ValidLemmas
pub mod VolumeLemmas
pub mod WriteLemmas
