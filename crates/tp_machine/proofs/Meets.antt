-- Goals met with the heads of clauses.
pub mod HeadsMet
pub mod Program
