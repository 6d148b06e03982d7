mod OrderLaws
mod FrontLaws
mod MergeLaws
mod SkipLaws
