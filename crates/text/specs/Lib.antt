-- Contents.
-- bytes of a quoted text
pub mod Ascii
-- digits, and numbers in decimal
pub mod Numbers
-- text in a fixed space
pub mod Text
-- the English line of a refusal number
pub mod English
-- numbers as they are spelled
pub mod Spelled
-- why there is no answer
pub mod Reasons
