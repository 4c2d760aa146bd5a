-- Contents. A table file with one cost changed (02, M-112):
-- what is kept of its bytes, and what it says
pub mod Rewritten
-- what no promise cites
pub mod Inside
