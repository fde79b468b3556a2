pub mod Places
pub mod Stand
