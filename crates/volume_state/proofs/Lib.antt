pub mod CallLaws
pub mod ClosingLaws
pub mod DueLaws
pub mod PlanLaws
pub mod StateLaws
