-- Outcomes: known by their numbers; the laws of the room, and of what a program writes.
pub mod Outcomes
pub mod RoomLaws
pub mod TextLaws
