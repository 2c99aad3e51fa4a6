-- An issuer and its host from a desk, and what a run makes of the journals.
pub mod SeenStores
pub mod Configuration
pub mod Journals
pub mod Worlds
pub mod Lawful
pub mod Kept
pub mod Left
pub mod Loading
pub mod Shown
pub mod CardText
pub mod Isolation
pub mod Approvals
