pub mod Shared
mod Worked
mod Mine
mod RunCases
mod StepCases
mod SystemCases
