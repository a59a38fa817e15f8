-- Definitions of opgen_command: the words and options that each command takes, and the command that a command line means.
pub mod Apps
pub mod Command
pub mod Names
