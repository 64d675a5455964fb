pub mod Parts
pub mod SampleNumbers
pub mod SamplesBack
pub mod Digits
pub mod Sizes
pub mod HeadLines
pub mod HeadBack
pub mod ReadBack
