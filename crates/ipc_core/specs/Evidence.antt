-- Lemmas that ghost members cite: no reader has to believe them.
pub mod Alike
pub mod RowsAgree
pub mod TablesAgree
