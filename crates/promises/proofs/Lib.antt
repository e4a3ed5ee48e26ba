pub mod CrashLaws
pub mod GroupLaws
pub mod ImageLaws
pub mod OrderLaws
pub mod PromiseLaws
pub mod ReplyLaws
pub mod ServingPromise
