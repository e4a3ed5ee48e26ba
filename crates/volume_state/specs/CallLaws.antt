pub mod StartLaws
pub mod SubmitLaws
pub mod StepLaws
pub mod Running
pub mod Handing
pub mod Draining
pub mod Laws
pub mod Sealed
