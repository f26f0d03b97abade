pub mod CommandLines
mod NoHelp
