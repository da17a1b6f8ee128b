pub mod Systems
pub mod Claims
