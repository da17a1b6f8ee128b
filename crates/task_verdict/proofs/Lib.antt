pub mod Plains
pub mod Missing
pub mod Numbers
