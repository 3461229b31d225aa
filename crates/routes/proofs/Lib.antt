-- Laws for other crates.
pub mod Ordered
pub mod AlikeLaws
pub mod Carried
pub mod Tags
pub mod RouteCodec
pub mod PolicyCodec
-- Laws for the code's own proofs.
pub mod OrderLaws
pub mod WireLaws
pub mod MetLaws
pub mod FormLaws
