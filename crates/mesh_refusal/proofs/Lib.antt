pub mod RefusalParts
