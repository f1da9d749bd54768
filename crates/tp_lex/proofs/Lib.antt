pub mod StandsBehind
pub mod Characters
pub mod Places
pub mod Forms
pub mod TokensStand
