mod Claims
mod WholeRuns
mod Cells
mod Ready
