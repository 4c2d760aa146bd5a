-- Contents. What a reader must believe of a page:
-- bytes laid over it
pub mod Laid
