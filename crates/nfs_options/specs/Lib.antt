-- What contracts say of a command line.
pub mod CommandLine
