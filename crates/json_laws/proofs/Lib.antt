mod KindsBack
mod TagsBack
mod LeavesBack
mod LabelsBack
pub mod NodesBack
