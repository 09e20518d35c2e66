pub mod Calls
pub mod Conditions
pub mod Desk
pub mod Listener
pub mod Listing
pub mod Programs
pub mod Train
pub mod Wire
