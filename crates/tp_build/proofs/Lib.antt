pub mod Words
pub mod RowAnswers
pub mod PlacesShow
