pub mod ListsStay
pub mod StampsStay
