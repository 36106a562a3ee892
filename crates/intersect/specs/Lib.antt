pub mod First
pub mod ExportsComeBack
