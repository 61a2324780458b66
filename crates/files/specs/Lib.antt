pub mod Files
pub mod CallFiles
pub mod FilesRead
pub mod Laws
pub mod Internal
