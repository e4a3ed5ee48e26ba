pub mod BasicCommands
pub mod CommandLine
