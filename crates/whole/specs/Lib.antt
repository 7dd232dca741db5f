pub mod Budget
pub mod Numbers
