-- Kernels that are saved.
pub mod SavedRows
pub mod SavedKernels
