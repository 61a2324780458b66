pub mod Book
pub mod Laws
pub mod BookRead
pub mod Internal
