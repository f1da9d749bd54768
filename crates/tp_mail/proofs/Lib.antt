pub mod OneBox
