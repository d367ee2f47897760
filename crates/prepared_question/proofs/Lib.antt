pub mod SameMeaning
pub mod ChildrenBefore
pub mod OnlyChildrenChange
pub mod SameNodeByNode
pub mod SameVerdict
pub mod Marks
