-- Laws for other crates: OneForm, Places, Cases. Laws for the code's own proofs: CodeLaws.
pub mod OneForm
pub mod Places
pub mod Cases
pub mod CodeLaws
