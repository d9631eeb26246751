pub mod SectionLaws
pub mod CutLaws
pub mod InsideLaws
pub mod TallyLaws
pub mod QueueLaws
