pub mod Findings
pub mod Threads
pub mod Values
pub mod Delays
pub mod Chains
pub mod Explanations
