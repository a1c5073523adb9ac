pub mod Walks
pub mod Resolvents
pub mod Learning
pub mod Tracing
