pub mod CountList
