-- A kernel after a send and after a receive.
pub mod KernelParts
pub mod ShownMessages
pub mod ShownWaiting
pub mod PartsAfter
