pub mod OtherKeys
