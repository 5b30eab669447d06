pub mod SourceRun
