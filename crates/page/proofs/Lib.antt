mod PutLaws
mod NumberLaws
mod NameLaws
mod WritingLaws
mod TreeLaws
