-- Contents. A milder guard keeps a yes (02, M-107), said of the very definitions that `rows` and `verdict` promise.
-- a guard with N or any measured cost lowered
pub mod Milder
-- which never turns a yes into a no
pub mod MilderKeeps
