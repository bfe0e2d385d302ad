mod OutputSteps
mod OutputIndex
mod OutputMarks
mod OutputRows
