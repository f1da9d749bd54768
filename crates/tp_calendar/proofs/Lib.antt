pub mod Before
pub mod PutBack
