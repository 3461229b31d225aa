-- The library that others link: its functions hand on what the crates below prove.
mod Laws
