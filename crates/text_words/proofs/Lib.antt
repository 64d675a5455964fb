pub mod WordParts
